-- Records by their places.

-- two records change places
pub mod Swapped
-- records become others
pub mod Become
