pub mod MaskLemmas
pub mod SpanLemmas
