pub mod CombinedLinks
