pub mod Words
pub mod Due
pub mod Ends
pub mod Guides
pub mod Printed
pub mod Clauses
