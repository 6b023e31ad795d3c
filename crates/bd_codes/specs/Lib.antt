pub mod Codes
pub mod DhcpTable
pub mod Row
pub mod TlvTable
