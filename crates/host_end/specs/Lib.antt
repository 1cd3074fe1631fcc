-- A text on a line, and a host's end fed bytes.
pub mod Text
pub mod HostEnd
