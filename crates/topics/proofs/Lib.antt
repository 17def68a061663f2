mod ByteLaws
mod LevelLaws
