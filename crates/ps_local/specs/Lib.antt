pub mod Exchanges
pub mod Cuts
pub mod Qubits
pub mod Wires
pub mod Windows
pub mod Local
pub mod LocalLaws
