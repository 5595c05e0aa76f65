pub mod Books
pub mod Disposal
pub mod Laws
pub mod Stores
pub mod Walks
