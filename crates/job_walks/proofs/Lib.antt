mod Above
mod Places
mod Selections
mod SortedNames
mod Steps
