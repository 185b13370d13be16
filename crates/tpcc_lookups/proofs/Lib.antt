mod Low
