-- What the contracts of this crate cite. Octets has the definitions, the others their laws.
pub mod Octets
