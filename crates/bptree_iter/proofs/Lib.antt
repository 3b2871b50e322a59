mod EndLemmas
pub mod SpanLemmas
