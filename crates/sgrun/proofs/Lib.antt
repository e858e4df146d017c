pub mod ArgumentLemmas
pub mod NewDiskLemmas
pub mod KeptDiskLemmas
pub mod ShownDiskLemmas
