pub mod ItemsText
