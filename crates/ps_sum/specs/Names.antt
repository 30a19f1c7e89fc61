-- Names close up where a variable is gone.
unfoldable pub use Rattle.ps_mono.specs.Names.{closed, opened}
