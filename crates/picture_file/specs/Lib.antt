pub mod Prefixes
pub mod Palette
pub mod PictureBytes
