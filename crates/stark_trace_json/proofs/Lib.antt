pub mod Even
pub mod Items
pub mod Lexed
pub mod Tables
