-- The listing by pencil: what is written, where the code may stand, and what holds between the pencil and the table.
pub mod Pencil
pub mod Standing
pub mod Agrees
