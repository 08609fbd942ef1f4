mod Failing
mod Reading
mod Writing
