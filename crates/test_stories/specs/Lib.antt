pub mod ListDesk
