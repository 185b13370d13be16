pub mod Settlement
