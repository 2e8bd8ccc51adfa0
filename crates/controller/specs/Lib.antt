pub mod BusState
