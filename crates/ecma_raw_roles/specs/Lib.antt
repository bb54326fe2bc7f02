pub mod RawRoles
