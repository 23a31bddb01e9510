pub mod OneByOne
pub mod Growth
pub mod Meaning
pub mod CreateTable
pub mod CreateView
pub mod Rights
