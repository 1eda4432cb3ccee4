pub mod InputRefusals
pub mod Planning
pub mod Refusing
pub mod FrontAndFiles
pub mod ScenarioParts
