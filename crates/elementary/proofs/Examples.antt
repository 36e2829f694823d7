mod Methods
mod Floor
mod Sqrt
