mod Before
mod Sorted
mod Least
