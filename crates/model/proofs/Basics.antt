pub mod Tests
pub mod Lists
pub mod Every
pub mod Results
pub mod LittleEndian
pub mod Passes
