-- How the trees of a table are made of one another.
pub use Rattle.seg_tree.specs.Older.{number_in, number_of, IsOlder, IsForest}
