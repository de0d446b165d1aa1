-- Laws of requests by the words of their lines.
pub mod WordLaws
pub mod RequestLaws
pub mod QuickLaws
