-- The rows of a scene as they stand in lists:
pub mod Rows
-- what the reading of rows promises:
pub mod Reading
-- what the writing to a page promises:
pub mod Page
-- the report by the numbers in the lists of the call:
pub mod ReportLists
-- what the report of a text is made from:
pub mod Answers
