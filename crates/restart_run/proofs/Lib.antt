pub mod NobodyBegins
pub mod RestartCauses
pub mod BoxValues
pub mod RestartSaid
