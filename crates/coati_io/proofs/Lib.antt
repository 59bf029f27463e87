pub mod AppendedBytes
pub mod ConsumedBytes
pub mod Faults
pub mod Sending
