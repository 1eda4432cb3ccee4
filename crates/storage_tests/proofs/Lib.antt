mod StagedLogs
