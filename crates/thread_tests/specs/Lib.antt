pub mod Invented
