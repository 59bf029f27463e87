pub mod RunOut
