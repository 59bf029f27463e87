pub mod Stores
mod Parts
