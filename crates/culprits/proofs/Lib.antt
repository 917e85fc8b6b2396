mod Joined
mod Lists
mod Sites
mod Tables
