pub mod Namespaces
