-- Which values of keys stay, and which are lost.
pub mod KeptKeys
pub mod KeptRest
pub mod KeptValues
pub mod LostKeys
pub mod LostValues
