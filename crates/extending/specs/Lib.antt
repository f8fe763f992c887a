pub mod Charted
