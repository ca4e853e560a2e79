pub mod EfsKeys
