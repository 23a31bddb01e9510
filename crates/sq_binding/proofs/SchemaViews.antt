-- CREATE VIEW: the view that it makes, the columns that the view shows, and the privileges that its owner gets.
pub mod BoundViews
pub mod CreatedViews
pub mod ViewAdded
pub mod ViewGrants
pub mod ViewHeld
pub mod ViewNames
pub mod ViewShows
pub mod Viewed
pub mod ViewsWritten
