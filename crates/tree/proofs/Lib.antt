-- The laws about the definitions of specs/, for the crates above to cite. Claims says what is shown in document 01's words.
-- searching, counting, the best of a list, different numbers
pub mod Scans
pub mod Rows
pub mod Bests
pub mod Orders
pub mod Pigeonhole
-- climbing, roots, levels, lowest common ancestors
pub mod Climbs
pub mod Roots
pub mod Trees
pub mod Lcas
pub mod Lists
pub mod BottomUps
-- preorder and the labels
pub mod Precedes
pub mod PreorderList
pub mod Preorders
pub mod Sums
pub mod Blocks
pub mod Sizes
pub mod Intervals
pub mod Subtrees
pub mod Tours
pub mod Inlabels
pub mod Paths
-- the tables' cells and rows
pub mod Cells
pub mod Columns
pub mod Sparse
pub mod Doubling
pub mod Differences
pub mod OwnCells
-- the routes' rules
pub mod Ascents
pub mod ByLabels
pub mod ByTour
pub mod Falling
pub mod Levelled
pub mod Raised
pub mod ByLifts
pub mod Branches
-- the tests of a sheet
pub mod Verdicts
pub mod Places
pub mod Answers
pub mod Fits
pub mod Acceptance
pub mod Questions
pub mod Stages
pub mod Pairs
pub mod Owning
-- what is shown
pub mod Claims
pub mod Known
