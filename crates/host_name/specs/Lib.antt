pub mod HostName
