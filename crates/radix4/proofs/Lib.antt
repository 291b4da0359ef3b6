mod Recurrence
