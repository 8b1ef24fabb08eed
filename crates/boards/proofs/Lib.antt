-- From time to column.

-- columns, widths and waits
pub mod Times
