-- What a decoded table stands for, and what its arrays hold.
pub mod Nodes
pub mod Decoding
