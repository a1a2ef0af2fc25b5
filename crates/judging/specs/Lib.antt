pub mod Judging
pub mod Reasons
pub mod Listed
pub mod TaskByTask
