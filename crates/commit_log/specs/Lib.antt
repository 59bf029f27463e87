pub mod Marker
pub mod Changes
pub mod OpenUnit
pub mod Left
pub mod Laws
