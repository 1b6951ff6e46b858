-- The definitions of document 01, over the sheet alone.
pub mod Scan
-- "The sheet and its words"
pub mod Tree
pub mod Preorder
pub mod BottomUp
pub mod Lca
pub mod Sharing
-- "Tables"
pub mod Labels
pub mod Tour
pub mod Lifts
pub mod Tables
pub mod Sections
pub mod Routes
pub mod Trail
pub mod Branch
-- "Numbers on the operator's screen"
pub mod Verdict
pub mod Tests
pub mod Buffers
pub mod Lending
pub mod Answered
pub mod Ready
pub mod Nodes
pub mod Pairs
-- "Known sheets"
pub mod Known
