pub mod KeptWorlds
