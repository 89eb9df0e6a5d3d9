pub mod DigitLemmas
pub mod ScanLemmas
