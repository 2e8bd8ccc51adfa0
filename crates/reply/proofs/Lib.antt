pub mod Replies
pub mod ReplyTheorems
