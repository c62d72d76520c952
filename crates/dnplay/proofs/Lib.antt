pub mod VolumeCount
