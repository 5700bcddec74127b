pub use Rattle.night_verdict.specs as night_verdict_specs
