pub mod LevelBounds
